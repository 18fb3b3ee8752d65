pub mod ReadLaw
pub mod OneAnswer
pub mod OrZero
