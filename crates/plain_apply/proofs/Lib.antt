pub mod Down
pub mod Items
pub mod Last
pub mod Without
