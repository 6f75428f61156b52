pub mod Asked
pub mod Carried
pub mod Room
