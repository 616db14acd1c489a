pub mod Rows
pub mod Stores
pub mod Snapping
pub mod Rounds
pub mod Sparing
pub mod Pages
