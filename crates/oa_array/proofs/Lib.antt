pub mod Cells
pub mod Counting
pub mod Fills
pub mod Places
pub mod Redim
pub mod Walks
pub mod Decided
