pub mod JournalLemmas
pub mod TriggerLemmas
pub mod ConfigLemmas
pub mod WordsLemmas
