-- The definitions that README's promises need.
pub mod Agreement
pub mod Breaches
pub mod DeclarationValues
pub mod Declarations
pub mod Defaults
pub mod IsLibrary
pub mod Libraries
pub mod Repeats
