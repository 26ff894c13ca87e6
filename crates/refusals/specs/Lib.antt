pub mod Number
pub mod Due
