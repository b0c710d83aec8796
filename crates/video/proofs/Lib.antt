pub mod DarkRows
pub mod DisplayLaws
pub mod IndexedLists
pub mod PlaneLaws
pub mod RowTexts
pub mod ShownLaws
mod WorkedPlanes
