pub mod Fields
pub mod LongestFirst
pub mod LongestCall
pub mod Room
