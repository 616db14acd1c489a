pub mod TableSteps
pub mod Owed
pub mod ResumedCosts
pub mod GoingBack
pub mod Heaps
pub mod Law
pub mod EpochSize
