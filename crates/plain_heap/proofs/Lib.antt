pub mod States
pub mod Alone
pub mod Calls
mod Examples
pub mod OneCheckpoint
pub mod WorkedCheckpoints
pub mod Orders
pub mod Reaching
