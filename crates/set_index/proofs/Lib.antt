pub mod Laws
mod Ways
