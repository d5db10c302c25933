pub mod Edits
pub mod Examples
pub mod Pages
pub mod Rebuilt
