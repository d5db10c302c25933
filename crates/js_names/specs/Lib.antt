pub mod Index
pub mod Judging
pub mod Program
pub mod Scopes
