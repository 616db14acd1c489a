pub mod CheckpointWords
pub mod SavingStands
pub mod Picture
pub mod Out
pub mod Broken
pub mod Read
