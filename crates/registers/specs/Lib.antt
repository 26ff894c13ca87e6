pub mod Registers
pub mod Stores
