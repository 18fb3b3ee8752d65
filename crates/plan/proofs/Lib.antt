pub mod CheckLaw
pub mod MarksLaw
pub mod OneAnswer
pub mod RowsLaw
pub mod SizesLaw
