-- The definitions that README's promises need.
pub mod Bytes
pub mod Tokens
