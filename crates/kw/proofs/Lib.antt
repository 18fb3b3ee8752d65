pub mod Told
pub mod RegionsLaw
pub mod Inside
pub mod OneAnswer
