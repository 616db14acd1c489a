pub mod Begun
pub mod StoppingInstructions
pub mod Effects
pub mod Beginnings
pub mod LookAtGate
