pub mod EditLaws
pub mod OrderLaws
pub mod PageLaws
pub mod PlaceLaws
pub mod RebuildLaws
