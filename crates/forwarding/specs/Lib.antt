pub mod Evacuation
pub mod Taken
pub mod Left
pub mod Keeping
pub mod Soundness
pub mod Worked
pub mod Theorems
