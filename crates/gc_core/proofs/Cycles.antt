pub mod Kept
pub mod Filling
pub mod Flips
pub mod SizesByEvents
pub mod Aside
pub mod CyclesOfRuns
