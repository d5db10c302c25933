pub mod NoFloat
pub mod PointerLaws
pub mod ReadingLaws
