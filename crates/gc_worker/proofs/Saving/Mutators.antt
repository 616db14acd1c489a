pub mod KeptLooks
pub mod KeptSaves
pub mod KeptGuards
pub mod KeptRecalls
pub mod Accesses
pub mod KeptAllocations
