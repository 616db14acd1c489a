pub mod Words
pub mod Frozen
pub mod Savers
pub mod Parts
pub mod Kept
pub mod Written
pub mod Said
