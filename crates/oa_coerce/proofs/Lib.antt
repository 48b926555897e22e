pub mod Computed
mod Lifted
pub mod Nearest
pub mod Properties
mod Rules
mod Whole
