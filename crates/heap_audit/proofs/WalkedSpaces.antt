pub mod Breaks
pub mod Leasts
pub mod StretchWalks
pub mod SpaceWalks
pub mod Begins
