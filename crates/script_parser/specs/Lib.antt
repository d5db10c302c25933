pub mod Steps
pub mod Tests
pub mod Parser
pub mod Exact
