pub mod Pending
pub mod Sent
