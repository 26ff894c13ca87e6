pub mod Head
pub mod Body
