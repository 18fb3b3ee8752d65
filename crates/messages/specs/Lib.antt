pub mod Complaints
pub mod Usages
