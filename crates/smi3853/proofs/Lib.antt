pub mod Below
pub mod Filling
pub mod Numbers
pub mod Placing
