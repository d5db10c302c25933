mod Crashed
mod Filled
pub mod Kept
pub mod Moments
pub mod Twice
