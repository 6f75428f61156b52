pub mod Rows
pub mod Advanced
pub mod Window
pub mod Pairs
