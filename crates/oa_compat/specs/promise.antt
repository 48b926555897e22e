-- The definitions that README's promises need.
pub mod Fits
pub mod Keeps
pub mod LibraryTexts
