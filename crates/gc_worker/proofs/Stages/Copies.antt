pub mod Hosts
pub mod CopiedWords
pub mod Publishing
pub mod Linking
pub mod Placing
pub mod Finding
pub mod Registers
pub mod WholeCopies
