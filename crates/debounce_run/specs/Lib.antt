pub mod Start
pub mod Access
pub mod Turns
pub mod Threads
