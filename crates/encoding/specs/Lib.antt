pub mod Numbers
pub mod Buffers
pub mod InTurn
