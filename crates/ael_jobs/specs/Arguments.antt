pub mod CommandLine
pub mod Jobs
pub mod Options
pub mod Words
