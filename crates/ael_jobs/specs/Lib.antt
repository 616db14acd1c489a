pub mod Calls
pub mod Tasks
pub mod Runs
pub mod Arguments
pub mod Streams
