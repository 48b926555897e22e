pub mod Dumped
pub mod Failing
pub mod Printed
mod Limits
mod Showing
