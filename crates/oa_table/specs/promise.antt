-- The definitions that README's promises need.
pub mod Elements
pub mod Events
pub mod Faults
pub mod Locks
pub mod Objects
pub mod Outcomes
pub mod Places
pub mod Sizes
pub mod Tables
