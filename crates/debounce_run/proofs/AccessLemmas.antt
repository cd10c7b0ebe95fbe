pub mod Aged
pub mod Gives
pub mod Runs
pub mod Steps
