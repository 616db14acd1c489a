pub mod CheckpointRoundEnds
pub mod First
pub mod CheckpointPages
pub mod CheckpointStages
