pub mod Reading
pub mod Calling
pub mod KnownLengths
pub mod Failing
pub mod Making
