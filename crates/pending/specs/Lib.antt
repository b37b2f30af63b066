pub mod Pending
pub mod Pairs
pub mod Asks
