pub mod Resetting
pub mod Flipping
