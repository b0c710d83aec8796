pub mod Tables
pub mod ValuesBelow
pub mod SameKind
pub mod TimerCycle
pub mod TimerPeriod
pub mod TimerExpiry
pub mod WorkedValues
pub mod WorkedArbitration
pub mod Permutations
pub mod OrderLaw
mod WorkedTimers
