pub mod Filled
pub mod Full
pub mod Laid
pub mod Lending
pub mod Rows
pub mod Steps
