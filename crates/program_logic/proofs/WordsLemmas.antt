pub mod Nothing
pub mod IndexLaw
pub mod WordLemmas
pub mod Again
pub mod Anew
