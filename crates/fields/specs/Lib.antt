pub mod Entries
pub mod Facts
pub mod Filter
pub mod Number
pub mod Order
pub mod Overwrite
pub mod Sort
pub mod Zero
