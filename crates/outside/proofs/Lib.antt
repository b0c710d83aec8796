pub mod FileNames
pub mod Reading
pub mod SinkLaws
pub mod Writing
mod WorkedSinks
