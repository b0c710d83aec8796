pub mod SeatedChips
pub mod SeatedBytes
pub mod SafeRuns
pub mod SafeGames
mod KeyWords
pub mod Games
pub mod FittedPatches
pub mod Debuggings
pub mod Auditings
mod StatusCodes
mod Outcomes
mod Completeness
mod SureCalls
mod CheckedCertificates
mod ConfirmedLists
mod ProvedCarts
mod WorkedWords
mod WorkedCaseLines
