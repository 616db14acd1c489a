pub mod Held
pub mod Knows
pub mod Saves
pub mod Fits
pub mod Begun
pub mod Counted
