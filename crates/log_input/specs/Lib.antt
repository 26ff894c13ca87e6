pub mod Fronts
pub mod Reads
pub mod Stages
