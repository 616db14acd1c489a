pub mod Configurations
pub mod Laws
