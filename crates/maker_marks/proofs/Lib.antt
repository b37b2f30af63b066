pub mod Marks
mod Ways
