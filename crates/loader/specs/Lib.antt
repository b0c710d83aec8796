pub mod Work
pub mod Works
pub mod Readings
pub mod Games
pub mod Seen
