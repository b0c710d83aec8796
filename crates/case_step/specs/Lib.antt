pub mod Entries
pub mod EntryViews
pub mod Effects
pub mod Cases
pub mod Results
pub mod CaseLists
pub mod Ascending
pub mod CaseLaws
