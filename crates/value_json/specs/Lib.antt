pub mod Gives
pub mod Ranks
pub mod Sound
pub mod Sent
pub mod Whole
