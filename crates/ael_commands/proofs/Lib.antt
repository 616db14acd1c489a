pub mod NoConcordance
pub mod Assured
