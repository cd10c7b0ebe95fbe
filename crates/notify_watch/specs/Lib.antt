pub mod Config
pub mod Handler
