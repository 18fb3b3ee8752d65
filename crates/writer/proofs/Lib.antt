pub mod ChecksLaw
pub mod CopiesLaw
pub mod EntriesLaw
pub mod ImageLaw
pub mod OneAnswer
pub mod PlanesLaw
pub mod PrologueLaw
pub mod WriteLaw
