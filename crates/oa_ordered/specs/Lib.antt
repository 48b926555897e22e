pub mod Rows
pub mod Roots
pub mod Lending
pub mod Lends
