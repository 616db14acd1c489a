pub mod Written
pub mod JumpTargets
