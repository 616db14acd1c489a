pub mod Programs
pub mod Executions
pub mod Outputs
pub mod StartAndEnd
