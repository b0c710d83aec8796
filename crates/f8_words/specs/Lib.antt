pub mod Sums
pub mod StatusWord
pub mod SumLaw
