pub mod GateWords
pub mod Resuming
pub mod Passing
pub mod Exchanging
