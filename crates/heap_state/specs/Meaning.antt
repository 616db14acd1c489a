pub mod Values
pub mod Denotes
pub mod Dump
pub mod Represents
pub mod Loaded
