pub mod Processors
