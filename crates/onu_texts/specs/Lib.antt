pub mod Judging
pub mod Replaying
pub mod Room
