pub mod WonFlips
pub mod FullTold
pub mod PastEpochs
