pub mod Plain
pub mod Workers
pub mod Steps
pub mod Laws
pub mod Readers
pub mod History
pub mod Config
