pub mod TextLaws
mod WorkedErrors
mod WorkedVerdicts
