pub mod Frames
pub mod Run
pub mod Work
pub mod Control
pub mod Settling
pub mod Outcome
