pub mod Table
pub mod DecimalDigits
pub mod Placed
pub mod Begun
pub mod Stores
