pub mod Seen
pub mod Access
pub mod StoredWord
pub mod HeldUp
pub mod Rows
pub mod StoredValue
