-- The definitions that README's promises need.
pub mod Answering
pub mod Frames
pub mod Marks
pub mod Outgoing
pub mod Readers
pub mod Shared
pub mod Steps
pub mod Talking
