pub mod Alternatives
pub mod Entries
pub mod Seen
mod Writing
mod Taking
mod Ways
