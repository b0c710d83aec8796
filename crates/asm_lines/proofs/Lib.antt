pub mod RowLaws
pub mod SymbolLaws
mod WorkedLines
