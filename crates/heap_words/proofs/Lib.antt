pub mod Tags
pub mod KindCodes
pub mod Decoding
pub mod Spelling
pub mod Ranges
pub mod TaggedWords
pub mod Forwards
