mod GiveLemmas
mod GroupLemmas
mod LinkLemmas
mod MergeLemmas
pub mod PlaceLemmas
pub mod PutLemmas
mod RankLemmas
