mod Instances
mod Lengths
mod Ways
