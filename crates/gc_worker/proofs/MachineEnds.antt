pub mod Each
pub mod Whole
