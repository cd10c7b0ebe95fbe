pub mod Printed
pub mod Output
pub mod Transcript
pub mod PlayedView
pub mod Ending
pub mod Usage
pub mod FormView
pub mod Script
