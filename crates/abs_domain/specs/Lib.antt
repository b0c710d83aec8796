pub mod Lattice
pub mod AbstractState
pub mod Joins
pub mod KnownParts
pub mod StateView
pub mod PointOrder
pub mod Reasons
pub mod DomainLaws
