pub mod Examples
pub mod Grants
pub mod Reading
pub mod ShapeCode
pub mod Shapes
pub mod Views
