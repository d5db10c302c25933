pub mod Code
pub mod Examples
pub mod Laws
pub mod Loading
pub mod Store
pub mod Tree
