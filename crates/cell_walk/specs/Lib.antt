pub mod Walking
pub mod Taken
pub mod Left
pub mod Soundness
pub mod Chains
pub mod Worked
pub mod Theorems
