pub mod Reads
pub mod Elements
