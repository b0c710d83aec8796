pub mod Indexed
pub mod Named
