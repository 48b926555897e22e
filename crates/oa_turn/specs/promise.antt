-- The definitions that README's promises need.
pub mod Beginnings
pub mod ClientLocks
pub mod Events
pub mod Locking
pub mod Plans
pub mod Replacing
pub mod Steps
pub mod Turns
