pub mod Rest
pub mod Orders
pub mod Ways
