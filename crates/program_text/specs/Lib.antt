pub mod AsmError
pub mod Read
pub mod Labels
pub mod Part
