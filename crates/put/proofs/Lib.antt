pub mod PutLaw
pub mod DecimalLaw
pub mod LinesLaw
pub mod OneAnswer
