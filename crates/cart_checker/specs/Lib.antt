pub mod Verdicts
pub mod Worklists
pub mod WorkView
