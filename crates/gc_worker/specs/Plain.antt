pub mod Seen
pub mod Answer
pub mod Full
pub mod Stories
pub mod Marks
pub mod Empty
