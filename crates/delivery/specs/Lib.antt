pub mod Records
pub mod Region
pub mod Others
pub mod Orphans
