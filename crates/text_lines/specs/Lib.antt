pub mod Lines
pub mod Printable
pub mod ReadErrors
pub mod Steps
