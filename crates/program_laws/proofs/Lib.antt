pub mod PlayedLemmas
pub mod WholeLemmas
