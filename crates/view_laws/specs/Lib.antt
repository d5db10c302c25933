pub mod Examples
pub mod InPlace
pub mod Standing
pub mod Step
