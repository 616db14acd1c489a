pub mod WorkerRounds
pub mod Simulating
pub mod Noting
pub mod Agreeing
pub mod Threading
