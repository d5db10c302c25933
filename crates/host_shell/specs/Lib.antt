pub mod At
pub mod Carried
pub mod Ends
pub mod Line
pub mod Status
pub mod Words
