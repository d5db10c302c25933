pub mod Examples
pub mod Homes
pub mod Paths
