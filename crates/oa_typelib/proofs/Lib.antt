-- The modules that other crates cite.
pub mod Classes
pub mod Finds
pub mod Found
pub mod Kept
pub mod Looks
pub mod Naming
pub mod Same
pub mod Sound
-- The modules of this crate alone.
mod Entries
mod Grouping
mod Named
mod TypedTrees
