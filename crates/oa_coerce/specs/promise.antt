-- The definitions that README's promises need.
pub mod Answers
pub mod Coercions
pub mod Numbers
pub mod Refusals
