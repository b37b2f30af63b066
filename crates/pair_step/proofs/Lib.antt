pub mod PairEntries
mod Entering
mod Following
mod Repeating
mod Blocking
