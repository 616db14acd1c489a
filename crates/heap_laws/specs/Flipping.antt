pub mod Flip
pub mod Registers
pub mod Reset
pub mod Sizes
pub mod Live
