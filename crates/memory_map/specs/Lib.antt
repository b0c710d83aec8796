pub mod ChipPages
pub mod Holders
pub mod MapEntries
pub mod MapKinds
pub mod MapOf
pub mod KindTables
pub mod MapPorts
