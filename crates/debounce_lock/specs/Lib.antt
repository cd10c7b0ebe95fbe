pub mod History
pub mod Passes
pub mod Rights
pub mod Rule
pub mod Slot
pub mod Reports
