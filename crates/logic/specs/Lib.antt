pub mod Time
pub mod Tower
pub mod Book
pub mod Sides
pub mod Runs
pub mod Tables
pub mod TableFile
pub mod Why
