pub mod Blocks
pub mod inner
pub mod Openings
pub mod Ends
pub mod Steps
pub mod Records
pub mod Budgets
