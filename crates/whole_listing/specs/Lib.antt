pub mod Listing
pub mod SoFar
pub mod Rooms
pub mod Arrivals
