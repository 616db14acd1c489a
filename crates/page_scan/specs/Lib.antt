pub mod Scanning
pub mod Taken
pub mod Left
pub mod Soundness
pub mod Fields
pub mod Answering
pub mod Worked
pub mod Theorems
