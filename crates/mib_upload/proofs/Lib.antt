pub mod Parts
pub mod Once
pub mod Rising
pub mod Bounds
pub mod Reading
pub mod Joined
pub mod Walk
pub mod Classes
pub mod Left
mod Examples
