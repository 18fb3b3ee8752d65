pub mod PlaneLaw
pub mod CheckTableLaw
pub mod OneAnswer
