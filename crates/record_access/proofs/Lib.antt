pub mod Read
pub mod StoredWords
pub mod AccessRows
pub mod AccessMeasure
pub mod StoredValues
