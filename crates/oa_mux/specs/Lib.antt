pub mod Marks
pub mod Readers
pub mod Frames
pub mod Steps
pub mod Shared
pub mod Answering
pub mod Talking
pub mod promise
