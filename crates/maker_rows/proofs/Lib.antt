pub mod Laws
mod SafePairs
mod Ways
