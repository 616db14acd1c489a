pub mod Stocks
pub mod Records
