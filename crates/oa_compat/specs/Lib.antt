pub mod Keeps
pub mod LibraryTexts
pub mod Brings
pub mod promise
