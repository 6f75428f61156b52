pub mod Batches
pub mod Items
pub mod Retried
