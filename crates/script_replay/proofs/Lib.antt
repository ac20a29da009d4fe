pub mod Answering
pub mod Ends
pub mod Finished
pub mod Held
pub mod Messages
pub mod Replaying
pub mod Turns
pub mod Answered
