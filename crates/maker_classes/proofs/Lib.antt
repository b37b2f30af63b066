pub mod Turns
pub mod Ways
pub mod Whole
pub mod Rounds
pub mod Laws
