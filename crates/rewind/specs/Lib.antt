pub mod PowerAlike
pub mod Forgetting
pub mod LogEntries
pub mod LogView
pub mod Reached
pub mod Standing
pub mod Asking
pub mod Tape
