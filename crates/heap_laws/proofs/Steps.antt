pub mod RowPlaces
pub mod Learning
pub mod Composing
pub mod Forgotten
pub mod Composites
pub mod Answers
