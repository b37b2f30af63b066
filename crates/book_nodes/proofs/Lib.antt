pub mod Area
pub mod Absorb
