pub mod Graph
pub mod Steps
pub mod GraphTable
pub mod GraphOf
pub mod Predecessors
pub mod Counting
