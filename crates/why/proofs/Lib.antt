pub mod Runs
mod Ways
