pub mod ChipLaws
pub mod DrawLaws
