-- The definitions that README's promises need.
pub mod Framings
pub mod Known
pub mod Lines
pub mod Paces
pub mod Sessions
