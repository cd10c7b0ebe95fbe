pub mod Names
pub mod Times
