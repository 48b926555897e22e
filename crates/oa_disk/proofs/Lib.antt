mod Calls
mod Entered
mod Folders
mod Laid
mod Lengthened
mod Noted
pub mod Ranges
mod Recorded
mod Shown
mod Steps
pub mod Switched
mod Tearing
