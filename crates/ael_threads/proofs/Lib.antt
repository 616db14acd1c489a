pub mod Lists
pub mod TableRule
pub mod WorkerSeats
pub mod WholeCalls
pub mod BegunLooks
pub mod Callers
pub mod ProgramRuns
pub mod Alone
pub mod Unread
pub mod Refusals
pub mod ScannerActs
pub mod ActsInRow
pub mod RegisterCount
mod Taken
