mod Equal
mod Exact
mod Zeros
