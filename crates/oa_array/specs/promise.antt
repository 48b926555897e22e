-- The definitions that README's promises need.
pub mod Arrays
pub mod Boxes
pub mod Faults
pub mod Within
