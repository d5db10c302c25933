pub mod LookFacts
pub mod NodesLaws
pub mod Tables
