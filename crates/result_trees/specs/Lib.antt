pub mod Cycles
pub mod Examples
pub mod Final
pub mod Written
