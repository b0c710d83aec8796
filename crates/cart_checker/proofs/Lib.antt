pub mod Rounds
pub mod Efforts
pub mod WorkReads
pub mod WorkAdds
pub mod Settling
pub mod Stops
pub mod Endings
pub mod Told
