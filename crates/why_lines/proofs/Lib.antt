pub mod Noting
pub mod Failing
