pub mod PutNotes
pub mod Silence
pub mod WorkedPart
pub mod FullForOne
pub mod NewSeats
pub mod ShortParts
