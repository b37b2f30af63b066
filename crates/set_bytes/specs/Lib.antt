pub mod SetBytes
pub mod Promises
