pub mod Head
pub mod Flags
