pub mod Looks
pub mod SaidUpdates
