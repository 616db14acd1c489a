pub mod WalkedParts
pub mod Spaces
pub mod FirstWords
pub mod Reserving
pub mod WalkSteps
pub mod WorkedOut
