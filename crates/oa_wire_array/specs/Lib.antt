pub mod Scalars
pub mod Reading
pub mod Canon
pub mod Arrays
pub mod ArrayReading
pub mod ArrayCanon
pub mod promise
