pub mod Pieces
pub mod Order
pub mod Ends
pub mod Lines
pub mod FirstWrong
pub mod Part
pub mod FirstOther
