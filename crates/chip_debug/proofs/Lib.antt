pub mod WordNumbers
pub mod LineSteps
pub mod Halts
pub mod SceneLaws
pub mod MeetLaws
pub mod Placing
pub mod Returning
pub mod Turned
pub mod Storing
pub mod ChainLaws
pub mod GoingLaws
pub mod SteppingLaws
pub mod PutLines
pub mod SocketLaws
pub mod Searches
pub mod Replays
mod WorkedCommands
mod WorkedSessions
mod WorkedStops
