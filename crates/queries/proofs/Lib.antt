pub mod Answers
pub mod Waits
pub mod Chains
pub mod WholeBoard
