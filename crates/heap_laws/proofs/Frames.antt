pub mod PageWords
pub mod Values
pub mod OtherWords
pub mod NewPages
pub mod TurnedPages
