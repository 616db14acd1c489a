pub mod GateCounts
pub mod Worker
pub mod Team
pub mod Scanner
pub mod Passages
pub mod GateReads
