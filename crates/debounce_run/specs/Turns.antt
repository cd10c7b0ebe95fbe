pub mod Clock
pub mod Ended
pub mod Handed
pub mod Running
pub mod Turn
pub mod Watched
