pub mod PaidOutcomes
pub mod LonePageLooks
pub mod LoneHeaders
pub mod AccessedCounts
pub mod AccessedWords
pub mod AccessCosts
