pub mod Stocks
pub mod StockWords
pub mod Zeroed
pub mod Opened
pub mod Claimed
