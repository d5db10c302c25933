pub mod Chains
pub mod Fronts
pub mod Nexts
pub mod Recorded
pub mod Sizes
pub mod Sound
pub mod Within
