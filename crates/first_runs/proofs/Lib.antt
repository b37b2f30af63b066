pub mod Sooner
pub mod Tried
pub mod Ways
