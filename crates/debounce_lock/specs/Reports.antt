pub mod Done
pub mod Queue
