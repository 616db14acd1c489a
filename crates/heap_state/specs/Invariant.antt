pub mod Ghost
pub mod Parts
pub mod Inductive
pub mod HoldsOfCells
pub mod Holds
