pub mod Block
pub mod Text
pub mod promise
