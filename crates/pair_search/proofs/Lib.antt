mod Turns
mod Growing
mod Expanding
mod Exploring
pub mod Ended
