pub mod Entries
pub mod Limits
pub mod Scratch
pub mod TouchLaws
