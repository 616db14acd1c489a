pub mod Programs
pub mod Running
pub mod Outputs
