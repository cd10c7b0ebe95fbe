pub mod Keys
pub mod ReplyLemmas
pub mod HonestLemmas
pub mod ClockLemmas
mod PairLemmas
mod MovesLemmas
pub mod PlanLemmas
