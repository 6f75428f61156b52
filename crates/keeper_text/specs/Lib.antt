pub mod Keeping
pub mod Kept
pub mod Printed
pub mod Progress
