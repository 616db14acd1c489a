pub mod Claim
pub mod Open
pub mod Soundness
pub mod Rows
pub mod Theorems
pub mod HeldUp
