pub mod NextStages
pub mod StoredRows
pub mod Placing
pub mod Reserving
pub mod AllocationRows
