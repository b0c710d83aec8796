pub mod WordLaws
pub mod NumberLaws
pub mod LineSteps
pub mod FirstFault
mod WorkedNumbers
