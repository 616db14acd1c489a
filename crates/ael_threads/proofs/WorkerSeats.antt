pub mod OneByOne
pub mod Shown
pub mod Dealt
pub mod Joined
pub mod AllInOne
