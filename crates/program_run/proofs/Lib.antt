mod Instances
pub mod Laws
pub mod Walks
mod Ways
