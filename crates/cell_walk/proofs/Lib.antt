mod FirstWords
pub mod Along
pub mod Turns
pub mod ReplacedTargets
pub mod Sound
pub mod WalkGoesOn
pub mod Runs
pub mod Chains
pub mod PassedWords
pub mod WorkedOut
pub mod WalkRows
