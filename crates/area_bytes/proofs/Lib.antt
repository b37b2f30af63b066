pub mod Numbers
pub mod Clearing
pub mod Scans
