mod Cut
mod Ways
