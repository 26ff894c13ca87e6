pub mod Bytes
pub mod Numbers
pub mod Stores
pub mod Room
pub mod Outcomes
pub mod InTurn
