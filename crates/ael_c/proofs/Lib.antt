pub mod Values
pub mod Handles
pub mod Cases
pub mod Openings
