-- The definitions that README's promises need.
pub mod Answers
pub mod Arrays
pub mod Formats
pub mod Lengths
pub mod Numbers
pub mod TypeNumbers
pub mod Values
pub mod Variants
