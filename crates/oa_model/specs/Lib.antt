pub mod Limits
pub mod promise
