-- The definitions that README's promises need.
pub mod Canonical
pub mod Marked
