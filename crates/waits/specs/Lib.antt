pub mod Waits
pub mod inner
