pub mod InstructionRows
pub mod Results
pub mod Expiries
pub mod RequestKeeping
pub mod RequestChains
pub mod Choices
pub mod PulsedStanding
pub mod Standing
