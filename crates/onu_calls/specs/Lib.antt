pub mod Forwarding
pub mod Messaging
