pub mod WonPages
pub mod CopiedPages
pub mod EventByEvent
pub mod Stories
pub mod History
