pub mod Fills
pub mod Ownership
pub mod Places
pub mod Windows
