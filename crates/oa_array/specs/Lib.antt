pub mod Arrays
pub mod Boxes
pub mod Faults
pub mod Heads
pub mod promise
