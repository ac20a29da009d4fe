pub mod Chosen
pub mod Codable
pub mod Computed
mod Examples
pub mod Fields
pub mod Fits
pub mod Places
pub mod ReadBack
pub mod Spelled
