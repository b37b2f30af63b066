pub mod Walking
pub mod Waiting
mod Trials
