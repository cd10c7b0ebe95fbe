pub mod Due
pub mod DuePaths
pub mod FrontLaws
pub mod Fronts
pub mod Removals
pub mod Steps
