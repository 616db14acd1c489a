pub mod Heap
pub mod Records
pub mod Visits
pub mod Reached
pub mod Text
pub mod Words
