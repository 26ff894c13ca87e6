pub mod InPlace
pub mod Runs
pub mod Queries
