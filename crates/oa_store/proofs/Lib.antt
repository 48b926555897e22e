mod Changed
pub mod Counted
mod LaidDown
pub mod Longer
pub mod OneStore
pub mod Opened
mod Upgraded
pub mod Whole
pub mod Committed
pub mod Batches
