pub mod Crossing
pub mod Walking
pub mod FirstWord
pub mod Theorems
pub mod Worked
