pub mod Entries
pub mod Acceptance
pub mod Figures
pub mod Reading
pub mod Writing
