mod Appended
mod Applied
pub mod Banks
mod Counted
pub mod Damages
mod Fronts
mod LaidOut
mod Laying
pub mod Lockless
mod Opened
mod ReadOn
mod Sealing
mod Shapes
mod Slices
mod Stretches
pub mod Unique
