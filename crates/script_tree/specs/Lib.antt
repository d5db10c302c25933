pub mod View
