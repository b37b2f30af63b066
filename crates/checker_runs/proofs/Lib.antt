pub mod Breaks
mod Ways
