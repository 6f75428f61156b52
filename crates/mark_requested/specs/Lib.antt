pub mod Marking
pub mod Choices
pub mod Turns
