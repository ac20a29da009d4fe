pub mod Code
pub mod Fault
pub mod Message
pub mod Replies
