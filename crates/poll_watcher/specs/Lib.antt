pub mod Schedule
pub mod Work
pub mod Roots
pub mod HintSet
pub mod Folders
pub mod Entries
