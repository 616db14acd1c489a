pub mod Records
pub mod Paths
pub mod Invariant
pub mod Places
pub mod Making
pub mod Desks
pub mod Worked
pub mod Theorems
