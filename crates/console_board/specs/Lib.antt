pub mod BoardState
