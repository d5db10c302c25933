pub mod Views
pub mod Statements
