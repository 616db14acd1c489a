pub mod Legal
pub mod Tally
pub mod Order
pub mod Needs
pub mod Large
pub mod Loads
pub mod Checkpoints
