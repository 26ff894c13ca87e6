pub mod AllReached
pub mod Fits
