pub mod Added
pub mod Doubting
mod Examples
pub mod Placed
pub mod Reaching
pub mod Spelled
pub mod Steps
pub mod Rising
pub mod Borders
pub mod Sound
