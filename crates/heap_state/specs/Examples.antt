pub mod Worked
pub mod Flipped
pub mod Requested
pub mod Saving
