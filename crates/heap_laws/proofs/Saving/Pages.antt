pub mod Safe
pub mod MarkedPages
pub mod Images
pub mod PageSaves
pub mod Writes
