pub mod BelowLemmas
pub mod JoinLemmas
pub mod LookLemmas
pub mod PushLemmas
pub mod ReadLemmas
pub mod RunLists
pub mod SourceParts
pub mod TargetLemmas
