pub mod Ending
pub mod Reports
pub mod Threads
