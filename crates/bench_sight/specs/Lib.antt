pub mod Sight
pub mod Parts
