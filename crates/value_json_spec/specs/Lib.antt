pub mod Answers
pub mod Reading
pub mod Printing
pub mod Patches
