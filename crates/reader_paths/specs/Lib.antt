pub mod Played
pub mod Clock
pub mod Stream
pub mod Moves
pub mod Plan
