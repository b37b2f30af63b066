pub mod Breaks
pub mod Examining
