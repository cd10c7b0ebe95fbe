pub mod Moves
pub mod OneTeller
pub mod Slots
pub mod ReportsLemmas
