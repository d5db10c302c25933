pub mod Going
pub mod Keys
pub mod Reading
pub mod Trail
pub mod Whole
