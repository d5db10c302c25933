pub mod Else
pub mod Statements
pub mod Opening
pub mod Reducers
