pub mod Safe
pub mod OneRow
pub mod SameTable
