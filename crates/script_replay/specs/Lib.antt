pub mod Answers
pub mod Fault
pub mod Finish
pub mod Replay
pub mod Report
pub mod Room
