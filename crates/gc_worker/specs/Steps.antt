pub mod Access
pub mod Turned
pub mod Wanted
pub mod Goes
pub mod Stepped
pub mod Made
pub mod AtRest
pub mod Direct
