pub mod Numbering
pub mod Files
pub mod Explained
pub mod Answering
pub mod Breaking
pub mod Demands
pub mod SmallTower
