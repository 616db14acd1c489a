pub mod Reads
pub mod NotedPlaces
pub mod Walks
pub mod NewRows
pub mod TextParts
