pub mod PioState
