pub mod ProbeState
