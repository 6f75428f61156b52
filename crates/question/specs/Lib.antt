pub mod Distinct
pub mod Asked
