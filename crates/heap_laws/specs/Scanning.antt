pub mod Claims
pub mod Words
