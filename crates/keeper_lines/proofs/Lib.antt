pub mod NumberLaws
pub mod Cases
pub mod FieldLaws
pub mod DigitLaws
pub mod RowLaws
