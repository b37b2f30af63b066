mod Places
mod Ways
pub mod Laws
