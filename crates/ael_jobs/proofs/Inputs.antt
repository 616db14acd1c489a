pub mod InputLines
pub mod Growing
pub mod KnownBytes
pub mod Parsed
