pub mod Ends
pub mod Exact
