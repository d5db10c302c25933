pub mod Forms
pub mod Commands
pub mod PointerTexts
pub mod Pointers
pub mod Readings
pub mod Replies
