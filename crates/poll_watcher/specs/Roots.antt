pub mod Deep
pub mod Polled
pub mod Said
