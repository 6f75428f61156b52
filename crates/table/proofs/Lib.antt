pub mod EditLaws
pub mod KeepLaws
pub mod MarkLaws
