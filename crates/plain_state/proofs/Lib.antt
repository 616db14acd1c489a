pub mod Elements
pub mod Numerals
pub mod Gained
pub mod Stored
