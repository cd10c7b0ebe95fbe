pub mod Faults
pub mod Fields
pub mod Words
pub mod Whole
pub mod Hints
pub mod Pace
pub mod Reports
pub mod FaultRuns
