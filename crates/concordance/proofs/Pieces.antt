pub mod FirstWord
pub mod FirstLine
