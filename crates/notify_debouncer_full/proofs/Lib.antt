pub mod Batches
pub mod Emitting
