pub mod GaveLemmas
pub mod LoopLemmas
pub mod SourceLemmas
pub mod TakingLemmas
