pub mod WordTables
pub mod NameLookup
pub mod Chain
pub mod Depth
pub mod ItemList
pub mod LineTokens
pub mod Steps
pub mod FewNames
pub mod NoMarks
pub mod ListBytes
pub mod Tables
pub mod Entries
pub mod FieldLimits
pub mod ListedLines
pub mod ListedBytes
pub mod ListedPieces
pub mod ListedPasses
pub mod RoundTrip
pub mod ListingIs
pub mod Alike
pub mod ExpressionsAlike
pub mod StatementsAlike
pub mod FormulaValues
pub mod Stacks
pub mod ParsedOnce
pub mod OperatorMarks
pub mod ExpressionsFormed
pub mod ExpressionsRead
pub mod LongestExpressions
pub mod ImageRooms
pub mod ImageBytes
pub mod ImageIs
pub mod FirstFault
mod Examples
mod WorkedImages
mod WorkedExpressions
