mod Marks
mod BytesRead
mod ValuesRead
mod ScratchpadReads
mod Within
mod PartRanges
mod BitReads
mod EntryPut
mod EntriesRead
mod PartsAgain
mod ReadFits
mod EntriesAgain
mod LineEnds
mod TextSizes
pub mod RoundTrip
mod WorkedCertificates
mod WorkedExaminations
mod NextStates
mod Examinations
pub mod ClosedMaps
pub mod VerifiedMaps
mod WorkedRuns
