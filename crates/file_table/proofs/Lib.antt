mod Places
pub mod Laws
pub mod Ways
