pub mod Held
pub mod Words
pub mod Stores
pub mod Effects
