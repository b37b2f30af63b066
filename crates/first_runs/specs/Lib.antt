pub mod FirstRun
pub mod Numbered
