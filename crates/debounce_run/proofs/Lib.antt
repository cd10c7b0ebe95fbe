pub mod AccessLemmas
pub mod TurnsLemmas
pub mod ThreadsLemmas
