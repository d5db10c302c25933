pub mod Lengths
pub mod Passed
pub mod ReadBack
pub mod RoundTrip
pub mod Steps
pub mod Tags
pub mod Utf8
pub mod WholeValues
