pub mod Feeder
pub mod Listings
pub mod Renames
pub mod Reports
pub mod Callers
