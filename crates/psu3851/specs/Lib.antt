pub mod PsuState
