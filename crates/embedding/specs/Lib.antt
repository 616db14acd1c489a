pub mod Signs
pub mod Lists
pub mod Actors
