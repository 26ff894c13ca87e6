pub mod Bytes
pub mod Replies
pub mod Blocks
pub mod Writes
pub mod Runs
pub mod Lent
