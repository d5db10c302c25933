pub mod Tokens
pub mod Trees
pub mod Spelling
pub mod Rules
pub mod Programs
pub mod Sources
