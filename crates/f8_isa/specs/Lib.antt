pub mod Counters
pub mod InstructionRows
pub mod IsaState
pub mod KeptMemory
pub mod KeptPorts
pub mod Ports
pub mod Requests
