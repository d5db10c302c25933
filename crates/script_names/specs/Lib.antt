pub mod Environments
pub mod Names
pub mod Slots
pub mod Scripts
pub mod Examples
