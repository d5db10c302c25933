pub mod Given
pub mod Reads
pub mod Ruling
