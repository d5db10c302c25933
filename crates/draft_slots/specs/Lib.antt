pub mod Looks
pub mod Nodes
pub mod Peeks
pub mod Tables
