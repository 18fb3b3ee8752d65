pub mod Damage
pub mod Runs
pub mod ScrubSteps
