mod DecodedBytes
mod Fronts
mod OctalSteps
mod AscendingLists
mod WordCounts
mod AllNumbers
mod PartLengths
mod RegisterReads
mod HeaderMarks
mod LinesInOrder
mod ConfirmedRuns
mod NumbersAgain
mod PartsAgain
mod LineMarks
mod EntriesAgain
mod FirstLines
mod InsertedKeys
mod LineOrder
mod SortedEntries
pub mod WrittenAgain
pub mod WorkedTexts
mod LinePut
mod LineSets
