pub mod Runs
pub mod Scan
pub mod Examples
pub mod Spelled
pub mod Fronts
pub mod Reading
