pub mod Limits
pub mod Decisions
pub mod Cells
pub mod ValuePlans
pub mod promise
