pub mod Conflict
pub mod Sharing
pub mod Widening
