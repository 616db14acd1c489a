pub mod OneMutator
pub mod FewFlips
pub mod LiveWords
pub mod DoneCalls
pub mod FullHeaps
pub mod FullSpaces
