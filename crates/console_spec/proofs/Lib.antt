pub mod Played
pub mod InputLaws
pub mod Walks
pub mod RequestLaws
pub mod PowerLaws
pub mod WorkedRacks
pub mod WorkedRuns
mod WorkedPictures
mod WorkedScripts
mod WorkedDraws
mod WorkedMore
mod WorkedRequests
pub mod WorkedInterrupts
mod WorkedVectors
mod WorkedEnds
mod WorkedKinds
