pub mod Members
pub mod Closure
pub mod Emptying
pub mod TargetsOfCells
