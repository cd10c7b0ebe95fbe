pub mod AfterLemmas
pub mod AnewLemmas
pub mod KeptLemmas
pub mod LookLemmas
pub mod MovingLemmas
pub mod NamedLemmas
pub mod FilesLemmas
