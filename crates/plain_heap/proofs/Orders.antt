pub mod Stories
pub mod EachMark
pub mod LastStores
pub mod CheckpointsOfOrders
pub mod NoCells
pub mod Tracing
