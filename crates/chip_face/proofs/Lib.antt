pub mod RomPages
mod WorkedValues
pub mod MorePowers
