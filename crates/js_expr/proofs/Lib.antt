pub mod Rules
pub mod Seen
pub mod Values
pub mod Props
