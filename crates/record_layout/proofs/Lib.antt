pub mod Rereading
pub mod Joining
pub mod Apart
pub mod WordParts
