pub mod Counted
pub mod Each
pub mod Indices
pub mod Turns
