pub mod Statuses
pub mod Dumps
pub mod Files
pub mod Places
pub mod Shown
pub mod Stores
pub mod Texts
