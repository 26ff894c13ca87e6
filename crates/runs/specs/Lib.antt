pub mod Events
pub mod History
pub mod Claim
pub mod Freedom
pub mod Withdrawals
