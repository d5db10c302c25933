pub mod BuiltLaws
pub mod FlatLaws
pub mod LinesLaws
pub mod RunsLaws
