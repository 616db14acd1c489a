pub mod Word
pub mod Decoded
pub mod FirstWords
