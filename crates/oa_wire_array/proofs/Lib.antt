mod Ahead
pub mod ScalarLaws
pub mod ArrayLaws
pub mod Heads
mod Loops
pub mod Written
pub mod ArrayWritten
mod ArrayLengths
mod Widths
