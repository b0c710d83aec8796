pub mod Indexed
