pub mod Table
pub mod Era
pub mod FieldSpan
pub mod Walk
pub mod Entries
