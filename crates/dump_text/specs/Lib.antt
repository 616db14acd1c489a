pub mod Text
pub mod Said
pub mod Lines
pub mod Pieces
pub mod Reading
