pub mod GuardLooks
