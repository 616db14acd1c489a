pub mod Rows
pub mod Saves
pub mod Workers
pub mod Standing
pub mod Examples
