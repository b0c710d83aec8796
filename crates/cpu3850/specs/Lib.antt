pub mod CpuPorts
pub mod CpuSteps
pub mod StepRows
pub mod Held
pub mod Keeping
pub mod Reaching
pub mod OwnWrites
