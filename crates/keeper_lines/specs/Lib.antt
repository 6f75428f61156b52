pub mod Number
pub mod Line
pub mod Reading
pub mod Row
