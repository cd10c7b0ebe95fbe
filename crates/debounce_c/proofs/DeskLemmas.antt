pub mod CallLemmas
pub mod JournalLemmas
pub mod OutcomeLemmas
pub mod TextLemmas
pub mod LookLemmas
pub mod LookSteps
