pub mod Judged
pub mod Aheads
