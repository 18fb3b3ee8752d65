pub mod FolderLaw
pub mod OneAnswer
