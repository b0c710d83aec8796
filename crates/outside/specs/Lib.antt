pub mod Counts
pub mod SinkRules
pub mod MemorySinks
pub mod StoreRules
pub mod Reading
pub mod MemoryStores
pub mod Writing
