pub mod Breaches
pub mod Defaults
pub mod Keys
pub mod Libraries
pub mod MemberChecks
pub mod Repeats
pub mod Taken
pub mod promise
