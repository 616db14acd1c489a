pub mod Instructions
pub mod Lengths
pub mod Fetched
