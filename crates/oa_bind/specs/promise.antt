-- The definitions that README's promises need.
pub mod Bindings
pub mod Calls
pub mod Given
pub mod Names
pub mod Refusals
