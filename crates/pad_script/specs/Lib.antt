pub mod Answers
pub mod Statements
pub mod Reading
pub mod Telling
pub mod FirstFault
pub mod Limits
