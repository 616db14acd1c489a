pub mod Runs
pub mod Epochs
pub mod Steps
pub mod Stages
