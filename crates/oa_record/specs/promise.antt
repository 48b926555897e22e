-- The definitions that README's promises need.
pub mod Asks
pub mod CallParts
pub mod Layouts
pub mod Opcodes
pub mod Replacement
pub mod Replies
