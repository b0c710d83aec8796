pub mod CyclePlace
