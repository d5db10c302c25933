pub mod CopyLaws
pub mod PlaceLaws
pub mod ShownLaws
pub mod SourceLaws
