pub mod Pieces
pub mod Places
pub mod Sizes
pub mod Spans
pub mod Turns
