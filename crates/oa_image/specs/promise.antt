-- The definitions that README's promises need.
pub mod Events
pub mod Names
pub mod Sizes
pub mod Tables
