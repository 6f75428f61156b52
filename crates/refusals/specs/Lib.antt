pub mod Lent
pub mod Numbers
pub mod Refusals
