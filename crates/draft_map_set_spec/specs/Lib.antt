pub mod Examples
pub mod MapSet
