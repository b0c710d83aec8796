pub mod Words
pub mod Numbers
pub mod Drafts
pub mod FirstFault
