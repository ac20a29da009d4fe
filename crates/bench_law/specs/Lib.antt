pub mod Steps
pub mod Observation
pub mod Law
