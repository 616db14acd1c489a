pub mod KindsOfHeaders
pub mod Layouts
pub mod FieldSpans
pub mod Holding
