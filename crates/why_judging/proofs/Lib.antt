pub mod Rests
pub mod Parts
pub mod Marks
pub mod Loops
