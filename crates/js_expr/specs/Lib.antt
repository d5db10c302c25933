pub mod Lists
pub mod Nests
pub mod Next
pub mod Reading
pub mod Values
