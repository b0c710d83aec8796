pub mod Planes
pub mod ScreenState
