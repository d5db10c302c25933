pub mod Gives
pub mod Packing
pub mod Runs
