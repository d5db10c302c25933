pub mod Chains
pub mod Fields
pub mod Formats
pub mod Lists
pub mod Numbers
pub mod Values
