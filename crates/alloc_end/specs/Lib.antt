pub mod Place
pub mod Soundness
pub mod Rows
pub mod Theorems
pub mod HeldUp
