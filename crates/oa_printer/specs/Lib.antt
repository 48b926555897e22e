pub mod Printable
pub mod promise
