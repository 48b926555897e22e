pub mod Answers
pub mod Coercions
pub mod Numbers
pub mod Refusals
pub mod promise
