pub mod ClaimsLeft
pub mod Claiming
pub mod OpeningEffects
pub mod ClaimRows
