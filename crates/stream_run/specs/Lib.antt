pub mod Built
pub mod Endings
pub mod Lines
pub mod Runs
