-- what the crates above cite
pub mod Stretches
-- what this crate alone does
mod KeptBack
mod ReadAhead
