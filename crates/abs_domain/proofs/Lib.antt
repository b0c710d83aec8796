pub mod Lists
pub mod Orders
pub mod Bounds
pub mod Ranks
pub mod PointOrders
pub mod Examples
