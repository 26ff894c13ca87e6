pub mod Lines
pub mod PlainLines
pub mod FirstNumbers
