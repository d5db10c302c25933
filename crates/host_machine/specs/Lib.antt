pub mod Carries
pub mod Differences
pub mod Examples
pub mod Flat
pub mod Machine
pub mod Paths
