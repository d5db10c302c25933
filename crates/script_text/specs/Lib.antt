pub mod Signs
pub mod Words
pub mod Methods
pub mod Texts
pub mod TextSteps
pub mod Lexical
