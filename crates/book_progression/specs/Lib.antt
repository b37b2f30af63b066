pub mod PendingBytes
pub mod NodeBytes
pub mod Promises
