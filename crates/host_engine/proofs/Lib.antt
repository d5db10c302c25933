pub mod DraftLaws
pub mod EditLaws
pub mod FieldLaws
pub mod FlatLaws
pub mod HostLaws
pub mod PairLaws
pub mod PlaceLaws
