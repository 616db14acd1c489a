pub mod Bounds
pub mod Faultless
pub mod ReadLines
pub mod Sections
pub mod Tokens
pub mod SeedWords
