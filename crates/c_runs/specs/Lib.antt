pub mod Memory
pub mod Queries
pub mod Claim
