pub mod Readied
pub mod Law
pub mod OpenedCore
pub mod Lawful
pub mod Tasks
pub mod CoreSteps
pub mod ToldEnds
