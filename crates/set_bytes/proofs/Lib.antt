pub mod Elsewhere
pub mod Chosen
pub mod Dropping
pub mod Placing
pub mod Sets
pub mod Gathering
pub mod Output
pub mod Ways
