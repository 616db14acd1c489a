pub mod Loads
pub mod Replaced
pub mod Answered
