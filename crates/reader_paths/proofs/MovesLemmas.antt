pub mod MoveLaw
pub mod SourceLemmas
pub mod ToldLemmas
