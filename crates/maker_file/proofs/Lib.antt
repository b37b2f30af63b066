pub mod Tables
pub mod AnyKind
mod Same
mod Going
mod Ways
mod Filling
