pub mod Statements
pub mod NestsItems
pub mod Reducers
pub mod Faults
