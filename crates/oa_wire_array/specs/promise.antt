-- The definitions that README's promises need.
pub mod ArrayCanon
pub mod Arrays
pub mod Canon
pub mod Scalars
