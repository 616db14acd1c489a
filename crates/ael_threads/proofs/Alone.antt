pub mod Sparing
pub mod Matching
pub mod LoneHistories
pub mod Replying
pub mod LoneCalls
