pub mod Flat
pub mod Ids
pub mod Ending
pub mod WholeLemmas
mod HintsLemmas
pub mod ReportsLemmas
pub mod FaultRunsLemmas
