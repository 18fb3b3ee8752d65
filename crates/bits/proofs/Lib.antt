pub mod BitLaw
pub mod VoteLaw
pub mod LinearLaw
pub mod Table
