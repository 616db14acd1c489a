pub mod Cycle
pub mod Copies
