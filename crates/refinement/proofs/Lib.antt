pub mod Partitions
pub mod Counts
pub mod Theorems
mod Instances
