pub mod Demands
pub mod Contention
pub mod Handover
pub mod Logs
