pub mod Following
pub mod ToldCalls
pub mod WholeLemmas
