pub mod CheckLaws
pub mod MarkLaws
pub mod RecordLaws
pub mod RetryLaws
