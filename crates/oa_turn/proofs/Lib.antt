-- what the crates above cite
pub mod Relocked
pub mod Replacing
pub mod Runs
pub mod Texts
pub mod Fitting
pub mod Changing
pub mod Allowed
pub mod Eventless
pub mod NoTrace
pub mod SameLibrary
pub mod Tags
pub mod Beginning
pub mod OneState
pub mod Finding
pub mod Counted
-- what this crate alone does
mod LockAsked
mod Wants
mod Releases
mod Refused
mod Bound
mod Bringing
mod Planning
mod Own
mod CellOrder
mod InClient
mod InClients
