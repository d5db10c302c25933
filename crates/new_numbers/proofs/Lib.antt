pub mod EndLaws
pub mod NumberLaws
pub mod OwnLaws
pub mod SharedLaws
pub mod SharingLaws
