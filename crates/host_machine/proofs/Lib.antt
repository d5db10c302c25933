pub mod CarryLaws
pub mod DifferenceLaws
pub mod NumberLaws
pub mod PatchLaws
pub mod PathLaws
pub mod StepLaws
pub mod TableLaws
