pub mod Progress
pub mod WonFlips
pub mod FullTold
pub mod PastEpochs
