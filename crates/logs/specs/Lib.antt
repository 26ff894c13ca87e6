pub mod Records
pub mod Verbs
