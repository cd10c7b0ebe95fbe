pub mod WithinLemmas
pub mod SaidLemmas
pub mod KeptLemmas
pub mod SaidUpdateLemmas
pub mod LookerLemmas
pub mod WrittenLemmas
