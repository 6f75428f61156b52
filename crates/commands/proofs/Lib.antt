pub mod CountLaws
pub mod HoldingLaws
pub mod RecordedLaws
pub mod RunLaws
pub mod SentLaws
pub mod WriteLaws
