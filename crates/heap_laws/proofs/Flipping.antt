pub mod Sums
pub mod FlippedParts
pub mod FlippedWorkers
pub mod Flipped
pub mod Registers
pub mod Reset
pub mod StoredSizes
