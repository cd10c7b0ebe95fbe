pub mod FollowsFolder
pub mod PathSteps
pub mod WholeProgram
pub mod Folders
