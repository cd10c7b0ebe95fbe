pub mod After
pub mod Copy
pub mod Looked
pub mod Moving
pub mod Seen
pub mod Files
