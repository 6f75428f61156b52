pub mod Requested
pub mod Pairs
pub mod ByType
pub mod Run
