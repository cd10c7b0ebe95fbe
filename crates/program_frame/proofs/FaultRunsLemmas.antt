pub mod UntilLemmas
