pub mod CopyMeasure
pub mod CopyReads
pub mod CopyCosts
pub mod Scanned
pub mod Registers
