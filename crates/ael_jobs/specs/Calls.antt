pub mod Answer
pub mod Audits
pub mod Call
pub mod Concordance
pub mod Emits
pub mod Headline
pub mod Status
pub mod Success
