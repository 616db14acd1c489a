pub mod Labels
pub mod Limits
pub mod Before
pub mod Sound
