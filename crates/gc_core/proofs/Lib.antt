pub mod Events
pub mod Told
pub mod Runs
pub mod EventLaws
pub mod Cycles
