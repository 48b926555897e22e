pub mod Decimals
pub mod Keys
pub mod Scalars
pub mod Variants
pub mod promise
