-- The definitions that README's promises need.
pub mod Bank
pub mod Damages
