pub mod ErrorLines
pub mod CheckLines
