pub mod FinePairs
mod Flags
mod Moves
mod Turns
