pub mod Adding
pub mod NoFault
pub mod Values
pub mod Getters
pub mod Taking
