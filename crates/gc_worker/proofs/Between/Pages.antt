pub mod Copied
pub mod Claims
pub mod Written
pub mod Leaving
pub mod PageWords
pub mod ByClaims
