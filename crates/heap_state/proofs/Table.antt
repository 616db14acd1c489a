pub mod StoredRows
pub mod Stores
pub mod Spelled
pub mod LaidOut
pub mod Seen
pub mod CheckpointRows
pub mod Writing
