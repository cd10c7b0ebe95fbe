pub mod Adds
pub mod Aged
pub mod Happened
pub mod Ran
pub mod Stands
pub mod Taken
