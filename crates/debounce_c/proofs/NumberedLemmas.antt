pub mod MarkLemmas
pub mod SaidCores
pub mod SaidSteps
