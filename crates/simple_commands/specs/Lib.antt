pub mod Exact
pub mod Held
pub mod Options
pub mod Parsing
pub mod Readers
