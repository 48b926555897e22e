pub mod TextLaws
pub mod Fronts
pub mod Memory
