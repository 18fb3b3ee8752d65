pub mod Borrowed
pub mod Numbers
pub mod Reader
