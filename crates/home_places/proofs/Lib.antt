pub mod AscendingLaws
pub mod CompleteLaws
pub mod EndLaws
pub mod HomeLaws
pub mod ListedLaws
pub mod Steps
