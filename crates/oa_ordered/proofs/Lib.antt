pub mod Keys
pub mod Split
pub mod Joined
pub mod Places
pub mod Cut
pub mod Around
pub mod InRow
pub mod Counted
