pub mod SoundEnds
pub mod AuditEnds
pub mod Plainly
pub mod ConcordEnds
