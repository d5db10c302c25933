pub mod AnswerLaws
pub mod AtLaws
pub mod CarriedLaws
pub mod FeedLaws
pub mod LfLaws
pub mod LineLaws
pub mod SendLaws
pub mod ServeLaws
