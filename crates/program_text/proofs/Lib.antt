pub mod Lists
pub mod Tokens
pub mod Programs
pub mod Texts
pub mod Listings
