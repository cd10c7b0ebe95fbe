pub mod Keys
pub mod PlanLaw
