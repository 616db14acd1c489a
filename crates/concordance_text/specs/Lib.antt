pub mod Words
pub mod Lines
pub mod Parts
pub mod Rows
pub mod MayBeFull
pub mod Runs
pub mod Theorems
pub mod Worked
