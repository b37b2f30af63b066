pub mod Walks
pub mod Additions
