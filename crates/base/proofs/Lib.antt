pub mod Lists
pub mod Bytes
pub mod Pigeonhole
pub mod Answers
pub mod Search
pub mod Options
pub mod Rounds
pub mod Recursion
