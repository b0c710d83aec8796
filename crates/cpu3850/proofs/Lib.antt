pub mod InstructionRows
pub mod PlanLaws
pub mod KeepingLaws
pub mod ReachingLaws
pub mod PortLaws
