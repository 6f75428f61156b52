pub mod DistinctLaws
pub mod PlaceLaws
pub mod AnswerLaws
pub mod QuestionLaws
