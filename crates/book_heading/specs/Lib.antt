pub mod Ticks
pub mod Heading
