pub mod Walking
pub mod SpaceWalks
pub mod Spaces
pub mod Reserving
pub mod InHeap
pub mod WalksBelowFront
pub mod CopiedIdentities
pub mod WalkPlaces
