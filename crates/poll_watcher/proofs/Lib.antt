mod WorkLemmas
pub mod RootsLemmas
mod HintSetLemmas
mod EntriesLemmas
