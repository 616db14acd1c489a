pub mod Cost
pub mod TracedEpochs
pub mod EpochPages
pub mod Growths
pub mod CheckpointDebt
pub mod SavedPages
