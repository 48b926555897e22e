mod Found
mod Keyless
pub mod Keys
mod Named
mod Zeros
mod Reached
mod Refusing
mod Disconnected
mod Added
mod Bringing
pub mod Entries
