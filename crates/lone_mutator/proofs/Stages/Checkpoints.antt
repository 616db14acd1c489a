pub mod NextCheckpointCost
pub mod SaveRoundLoads
pub mod RoundSaves
pub mod CheckpointCosts
