pub mod GeneratedChips
pub mod SummaryLines
