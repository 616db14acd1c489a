pub mod SecondLooks
pub mod TracingLoads
pub mod TracedExchange
pub mod Copied
pub mod Live
pub mod Turns
pub mod Lost
