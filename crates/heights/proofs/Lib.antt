pub mod RowLaws
pub mod AdvanceLaws
pub mod ItemLaws
pub mod MissingLaws
pub mod PlaceLaws
pub mod SeenLaws
pub mod WritingLaws
