pub mod Sections
pub mod WellFormed
