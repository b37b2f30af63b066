pub mod Kept
pub mod Judging
pub mod Ways
pub mod BookHeld
