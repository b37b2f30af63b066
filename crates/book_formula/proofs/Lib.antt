pub mod Ends
pub mod Ways
