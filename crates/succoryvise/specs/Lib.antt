pub mod Entries
pub mod Version
