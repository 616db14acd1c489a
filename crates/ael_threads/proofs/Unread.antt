pub mod OtherBoards
pub mod OneCall
pub mod WholeHistory
pub mod BoardWords
