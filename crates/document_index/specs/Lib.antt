pub mod Read
pub mod Answered
