pub mod Sums
pub mod Tallies
pub mod TalliedSteps
pub mod TalliedTasks
pub mod OpeningTallies
