pub mod Lookups
pub mod Firsts
