pub mod Worked
pub mod Checking
