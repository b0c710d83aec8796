pub mod Counts
pub mod CountedKinds
pub mod Seats
pub mod ToldTexts
pub mod PutLaws
pub mod Progressed
pub mod EventLaws
pub mod LifeLaws
pub mod AskingLaws
pub mod TellingLaws
pub mod TellingTexts
pub mod Outcomes
pub mod MachineAsking
pub mod TurnLaws
pub mod RunLaws
pub mod MachineTurns
pub mod PlayLaws
pub mod PlayAsking
pub mod FlatTurns
pub mod EndLaws
pub mod TraceLaws
pub mod Chains
mod WorkedSockets
mod WorkedQuestions
mod WorkedLives
