pub mod FlippedInvariant
pub mod FlippedStands
