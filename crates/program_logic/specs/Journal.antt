pub mod Clock
pub mod Json
pub mod Kept
pub mod KeptView
pub mod Lines
pub mod Patterns
pub mod Printed
