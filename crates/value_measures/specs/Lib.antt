pub mod Same
pub mod Weights
