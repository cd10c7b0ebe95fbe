pub mod Rest
pub mod Start
pub mod Waits
