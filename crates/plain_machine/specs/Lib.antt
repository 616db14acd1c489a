pub mod Outcome
pub mod Search
