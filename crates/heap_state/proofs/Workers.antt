pub mod Teams
pub mod Frames
pub mod Idle
pub mod Posts
pub mod Walkers
