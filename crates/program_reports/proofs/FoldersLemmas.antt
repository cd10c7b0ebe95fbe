pub mod RestLemmas
pub mod StartLemmas
