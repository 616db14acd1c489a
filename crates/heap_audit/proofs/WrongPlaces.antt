pub mod AllPlaces
pub mod PlainShows
pub mod FirstPlaces
pub mod Verdicts
