pub mod RowLaws
pub mod ViewLaws
pub mod KindLaws
pub mod ReadyLaws
pub mod NumberLaws
pub mod RefusalLaws
