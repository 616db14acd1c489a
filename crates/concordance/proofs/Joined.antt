pub mod OwnCalls
pub mod NotedParts
pub mod TakenIn
