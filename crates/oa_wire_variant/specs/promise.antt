-- The definitions that README's promises need.
pub mod Canon
pub mod Variants
