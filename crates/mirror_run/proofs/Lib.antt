pub mod Prints
pub mod Endings
pub mod Runs
pub mod Forms
pub mod ScriptLemmas
