-- what the crates above cite
pub mod Spelled
pub mod Pieces
-- what this crate alone does
mod HexDigits
mod Left
mod Sessions
mod Splits
mod Seeks
mod Judged
mod Raws
mod OneSplit
mod OneReading
mod OneLines
mod OneRecords
