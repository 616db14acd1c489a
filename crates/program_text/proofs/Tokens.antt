pub mod Operands
pub mod Options
pub mod Names
