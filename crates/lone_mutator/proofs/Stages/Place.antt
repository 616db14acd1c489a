pub mod Claiming
pub mod AllocationCosts
