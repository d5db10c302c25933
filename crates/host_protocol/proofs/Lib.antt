pub mod Lengths
pub mod Passed
