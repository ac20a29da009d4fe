mod Examples
pub mod Leaving
