pub mod BesideLemmas
pub mod OnlyLemmas
