pub mod Halves
pub mod Active
pub mod FourSteps
pub mod Known
pub mod Quiet
pub mod Idle
pub mod AtOnce
