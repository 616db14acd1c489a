pub mod Clean
pub mod OneReading
