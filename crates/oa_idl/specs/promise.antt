-- The definitions that README's promises need.
pub mod Forms
pub mod Grammar
pub mod IsTree
pub mod Limits
pub mod MethodValues
pub mod Trees
pub mod Values
pub mod Words
