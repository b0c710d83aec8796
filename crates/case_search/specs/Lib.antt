pub mod ProvedLists
