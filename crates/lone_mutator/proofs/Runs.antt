pub mod MostSteps
pub mod ExecutedCounts
pub mod LoneOpening
pub mod Tasks
pub mod Progress
pub mod LoneRunEnds
