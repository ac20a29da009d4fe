pub mod Tags
pub mod Words
pub mod Readings
pub mod Bytes
pub mod Groups
mod Examples
