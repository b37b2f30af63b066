pub mod Choice
pub mod Lists
pub mod Recursion
pub mod Text
pub mod Bytes
pub mod Answers
pub mod Search
pub mod Options
