-- The definitions that README's promises need.
pub mod Codes
pub mod Folding
pub mod Guids
pub mod Integers
pub mod Invoke
pub mod Limits
pub mod Types
