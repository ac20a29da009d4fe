pub mod Tags
mod Fields
mod Mixes
mod Compiling
pub mod Sources
mod Examples
