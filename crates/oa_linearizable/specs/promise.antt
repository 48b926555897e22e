-- The definitions that README's promises need.
pub mod Crashes
pub mod Histories
pub mod Tables
