pub mod Passing
pub mod Flipping
pub mod Recalling
pub mod Snapping
pub mod Clearing
pub mod GateRows
