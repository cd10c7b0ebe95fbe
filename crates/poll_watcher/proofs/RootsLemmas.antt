pub mod PolledLemmas
pub mod SaidLemmas
pub mod ShownLemmas
