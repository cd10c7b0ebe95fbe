pub mod Beside
pub mod Closed
pub mod Folders
pub mod Parts
pub mod Reports
pub mod Rounds
