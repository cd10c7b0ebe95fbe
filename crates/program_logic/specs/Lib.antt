pub mod Journal
pub mod Trigger
pub mod Config
pub mod Words
