pub mod Printed
pub mod Causes
pub mod Inputs
pub mod Audits
pub mod WholeRuns
pub mod Concordances
pub mod Calls
pub mod TrueOutputs
