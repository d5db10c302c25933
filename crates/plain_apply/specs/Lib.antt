pub mod Gives
pub mod Last
pub mod Down
