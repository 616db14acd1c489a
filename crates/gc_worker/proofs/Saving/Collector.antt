pub mod KeptCopies
pub mod Scans
pub mod Opens
pub mod DutyRounds
