pub mod Markups
pub mod Clean
