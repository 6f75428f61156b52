pub mod FitLaws
pub mod KeptLaws
pub mod LineLaws
pub mod TextLaws
