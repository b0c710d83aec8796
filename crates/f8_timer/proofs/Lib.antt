pub mod Tables
pub mod AtPlaces
