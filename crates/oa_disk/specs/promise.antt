-- The definitions that README's promises need.
pub mod CallLog
pub mod Disk
pub mod Fuse
pub mod Memory
