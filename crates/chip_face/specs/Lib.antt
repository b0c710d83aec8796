pub mod Fitting
pub mod Queries
pub mod Steps
