pub mod Theorems
pub mod Kept
pub mod Nodes
pub mod Adds
pub mod Asked
pub mod Same
pub mod Marks
