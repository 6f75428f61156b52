pub mod HeadLaws
pub mod OnceLaws
pub mod TestLaws
