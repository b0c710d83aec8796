pub mod Held
pub mod Holding
pub mod Summary
pub mod Mapping
pub mod PortCounts
