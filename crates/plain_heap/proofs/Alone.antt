pub mod Owned
pub mod MarksAlone
pub mod Alike
pub mod Runs
pub mod Apart
pub mod Moves
pub mod Orders
