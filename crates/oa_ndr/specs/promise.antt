-- The definitions that README's promises need.
pub mod Forms
pub mod Reading
pub mod Writing
