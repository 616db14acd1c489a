pub mod Holding
pub mod Answers
pub mod Instructions
pub mod Calls
pub mod Handles
