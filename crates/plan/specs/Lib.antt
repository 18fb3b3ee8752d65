pub mod Rows
pub mod Checking
pub mod Sizes
