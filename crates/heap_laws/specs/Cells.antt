pub mod Frames
pub mod Links
pub mod Flips
pub mod Walks
