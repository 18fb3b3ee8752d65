pub mod FlagLaw
pub mod SizeLaw
pub mod RegionLaw
pub mod OneAnswer
