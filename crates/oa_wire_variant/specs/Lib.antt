pub mod Variants
pub mod Reading
pub mod Canon
pub mod promise
