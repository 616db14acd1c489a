pub mod Elements
pub mod Sums
pub mod Serials
pub mod LastRecord
pub mod Letters
pub mod Numbered
