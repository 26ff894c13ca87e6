pub mod Head
pub mod Section
pub mod Answers
