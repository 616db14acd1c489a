pub mod Step
pub mod Answers
pub mod Running
pub mod StepRows
pub mod Read
pub mod Rounding
pub mod Forgetting
