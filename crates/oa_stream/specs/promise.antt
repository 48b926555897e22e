-- The definitions that README's promises need.
pub mod Memory
pub mod Sink
pub mod Source
