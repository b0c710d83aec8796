pub mod ImageLines
pub mod Rows
pub mod ListingLines
