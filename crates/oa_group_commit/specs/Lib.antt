pub mod Invariants
pub mod History
pub mod Laws
pub mod Sessions
pub mod Simple
pub mod promise
