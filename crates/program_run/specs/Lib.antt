pub mod RunLines
pub mod Walking
