pub mod Loop
pub mod Gave
pub mod Batches
