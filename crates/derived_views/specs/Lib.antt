pub mod Accepted
pub mod Seen
pub mod Touching
