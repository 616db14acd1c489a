pub mod Asm
pub mod Audit
pub mod Bench
pub mod Concord
pub mod Division
pub mod ProgramTask
pub mod Task
