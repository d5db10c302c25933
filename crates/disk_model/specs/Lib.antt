pub mod Crash
pub mod Disk
pub mod File
pub mod Images
pub mod Memory
pub mod MemoryLaws
