pub mod Appends
pub mod Packs
