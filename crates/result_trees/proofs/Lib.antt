pub mod BackLaws
pub mod CopyLaws
pub mod CycleLaws
pub mod KeptLaws
pub mod OrderLaws
pub mod Readings
pub mod ShownLaws
pub mod WrittenLaws
