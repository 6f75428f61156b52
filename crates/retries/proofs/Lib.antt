pub mod FillLaws
pub mod ItemLaws
pub mod ListLaws
pub mod GroupLaws
pub mod SentLaws
pub mod WritingLaws
