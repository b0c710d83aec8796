pub mod OneMore
pub mod Unions
pub mod WorkedSets
