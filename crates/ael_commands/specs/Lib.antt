pub mod Status
pub mod Sure
