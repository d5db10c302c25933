pub mod Ahead
pub mod Lists
