pub mod Clients
pub mod Crashes
pub mod Sessions
pub mod Mutexes
pub mod Syncs
pub mod promise
