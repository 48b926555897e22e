pub mod Between
pub mod Framed
pub mod Kept
pub mod OneGroup
pub mod promise
