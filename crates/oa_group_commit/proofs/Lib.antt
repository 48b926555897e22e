-- what the crates above cite
pub mod Called
pub mod Calling
pub mod Entries
pub mod Stores
pub mod Takes
pub mod Ends
pub mod Histories
-- what this crate alone does
mod Running
mod Counted
mod InOpenGroup
mod FailedGroups
mod Alone
