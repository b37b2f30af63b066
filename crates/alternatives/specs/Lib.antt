pub mod Least
pub mod Antichain
pub mod Alternatives
pub mod Progression
pub mod Pairs
pub mod Asks
pub mod OneAlternative
