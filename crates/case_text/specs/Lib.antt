pub mod EntryWords
pub mod CasesText
pub mod WrittenCases
pub mod WrittenLaws
