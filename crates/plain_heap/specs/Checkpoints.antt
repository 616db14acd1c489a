pub mod Checkpoint
pub mod WorkedCheckpoint
pub mod LastCheckpoint
