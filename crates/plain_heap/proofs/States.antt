pub mod OpeningState
pub mod MutatorSteps
pub mod Reached
pub mod SameMutators
