pub mod Ends
pub mod Input
pub mod Memory
pub mod Standard
pub mod Stream
