-- The definitions that README's promises need.
pub mod ServerMachine
pub mod SharedMachine
pub mod SharedSessions
pub mod Storages
