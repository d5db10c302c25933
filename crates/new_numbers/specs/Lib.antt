pub mod Ending
pub mod Examples
pub mod Numbering
pub mod Shared
