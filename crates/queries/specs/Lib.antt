pub mod Words
pub mod Queries
pub mod Parts
pub mod inner
pub mod Answers
pub mod WholeBoard
pub mod Contention
