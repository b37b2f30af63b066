pub mod TowerRead
pub mod Stages
