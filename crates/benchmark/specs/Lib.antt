pub mod Text
pub mod Theorems
