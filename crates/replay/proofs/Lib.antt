pub mod Records
pub mod Turns
pub mod Blocks
pub mod Openings
