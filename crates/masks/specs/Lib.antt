pub mod Sets
pub mod Tabulation
pub mod Walk
