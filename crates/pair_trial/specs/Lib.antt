pub mod Walked
pub mod Trial
