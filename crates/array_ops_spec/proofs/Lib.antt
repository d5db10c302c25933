mod Revoked
pub mod Edits
pub mod Guards
