pub mod Bit
pub mod Vote
pub mod Linear
