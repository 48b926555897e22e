-- The definitions that README's promises need.
pub mod Changes
pub mod Faults
pub mod Holding
pub mod Stores
pub mod Writing
