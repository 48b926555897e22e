pub mod Heard
pub mod Taken
pub mod Judged
pub mod Begun
