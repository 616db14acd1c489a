pub mod Rounded
pub mod NextCheckpointStage
pub mod SaveRounds
