pub mod LoneGateCounts
pub mod Passages
pub mod Flip
pub mod Look
