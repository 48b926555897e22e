mod Bringing
mod Fallible
mod Fronts
mod HeadLengths
mod Header
mod Judged
pub mod LayoutLaws
mod Lengths
mod Longs
pub mod OpcodeLaws
mod Refusals
mod Replacing
mod Requests
