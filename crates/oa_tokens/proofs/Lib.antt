pub mod OneList
mod Scans
mod Spans
mod Steps
