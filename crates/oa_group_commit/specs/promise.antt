-- The definitions that README's promises need.
pub mod Groups
