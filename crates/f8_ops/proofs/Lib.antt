pub mod OpcodeTable
pub mod CodeTable
pub mod ClockBounds
