pub mod Decimals
pub mod Fitting
pub mod Ways
