pub mod Step
pub mod StepOn
pub mod Machine
pub mod Runs
pub mod Acts
