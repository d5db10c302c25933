pub mod Causes
pub mod Edges
pub mod Files
pub mod Memory
