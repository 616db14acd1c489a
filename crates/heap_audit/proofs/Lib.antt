pub mod Texts
pub mod Decimals
pub mod WalkedSpaces
pub mod WrongPlaces
pub mod ShownRecords
