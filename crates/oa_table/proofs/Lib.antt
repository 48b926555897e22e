pub mod Arrays
pub mod Through
pub mod Ordered
pub mod Unlocked
pub mod Entries
pub mod Sums
pub mod Starved
