pub mod EditLaws
pub mod ChildLaws
pub mod KeptLaws
pub mod WeightLaws
pub mod ListLaws
pub mod ViewLaws
pub mod HostLaws
