pub mod RequestedInvariant
pub mod RequestedStands
