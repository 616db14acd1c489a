pub mod ProgressMeasure
pub mod CopyProgress
pub mod Replies
pub mod CheckpointReads
pub mod LooksAgain
pub mod WholeProgress
pub mod Epochs
