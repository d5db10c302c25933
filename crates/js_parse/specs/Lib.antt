pub mod Causes
pub mod Parsing
