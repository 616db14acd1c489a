pub mod Frames
pub mod Copies
pub mod Records
pub mod Walks
pub mod Flips
