-- The definitions that README's promises need.
pub mod Decimals
pub mod Keys
pub mod Scalars
pub mod Variants
