pub mod Chains
pub mod Fields
pub mod Formats
pub mod Lists
pub mod Numbers
pub mod Reading
pub mod Spelling
pub mod Values
