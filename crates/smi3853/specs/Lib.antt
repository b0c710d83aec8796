pub mod SmiState
pub mod Spaces
