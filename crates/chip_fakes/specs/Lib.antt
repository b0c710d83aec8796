pub mod ListenerState
pub mod PatchedState
pub mod RecorderView
pub mod Recording
pub mod Rounds
