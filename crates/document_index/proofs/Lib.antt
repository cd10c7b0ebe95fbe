pub mod ReadLemmas
pub mod ServedLemmas
