pub mod Checked
pub mod Turn
