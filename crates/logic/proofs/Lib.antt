pub mod Leads
pub mod Canonical
pub mod Layouts
pub mod TableFile
pub mod TowerFile
pub mod ActionKinds
pub mod TimedParts
pub mod Ordering
