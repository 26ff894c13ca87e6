pub mod Fields
pub mod Sizes
pub mod Parts
pub mod Listing
