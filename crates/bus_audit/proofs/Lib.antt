mod FreeInputs
mod Courses
mod SameSteps
mod ToldSteps
mod PortReads
mod Asking
mod FreeChoices
mod Shadows
mod Behind
mod Beside
mod Agreement
mod Exact
pub mod Laws
mod WorkedTraces
mod TraceReads
mod TraceSizes
mod WorkedTraceText
pub mod PrintedSteps
pub mod PrintedText
pub mod PrintedRuns
mod ReadInputs
mod Audited
mod Standing
mod ToldInputs
mod ComingLaws
mod OutcomeLaws
mod HeardLaws
mod AuditLaws
mod TakenLaws
mod LivedLaws
