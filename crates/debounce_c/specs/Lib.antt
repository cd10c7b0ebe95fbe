pub mod Exports
pub mod Programs
pub mod Sealed
pub mod Numbered
pub mod Desk
