pub mod Reading
pub mod promise
