pub mod Drafts
pub mod Told
mod WorkedScripts
