pub mod Decide
pub mod Find
pub mod Keys
pub mod Within
