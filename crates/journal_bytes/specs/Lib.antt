pub mod Areas
pub mod Files
pub mod History
pub mod Records
pub mod Slots
