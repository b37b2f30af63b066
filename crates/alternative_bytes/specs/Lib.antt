pub mod AlternativeBytes
pub mod Promises
