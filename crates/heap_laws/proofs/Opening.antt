pub mod FreshWorkers
pub mod Heap
