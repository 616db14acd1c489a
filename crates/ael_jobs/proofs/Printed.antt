pub mod Hex
pub mod Seeing
pub mod LastCheckpoints
pub mod Dumps
pub mod Tables
