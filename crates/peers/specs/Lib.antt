pub mod Stalled
pub mod Peers
pub mod Aims
