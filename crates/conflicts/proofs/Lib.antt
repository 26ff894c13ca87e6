pub mod WidenedSets
pub mod Pairs
pub mod Rows
pub mod Accepted
pub mod Bridge
pub mod Over
